-- Document 01, "The desk program": the list that a line types.
pub mod Typed
pub mod Inner
