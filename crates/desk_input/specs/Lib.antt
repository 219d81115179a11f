-- Document 01, "The desk program": the lines of an input that is read in pieces.
pub mod Lines
pub mod Inner
