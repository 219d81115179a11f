-- The laws of the calls, for this crate and those above it.
pub mod Answers
pub mod Kept
pub mod Cards
