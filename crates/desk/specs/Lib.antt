-- Document 01, "The desk program": what is promised of a whole input, and what a piece of it leaves.
pub mod Desk
pub mod Inner
pub mod Lent
