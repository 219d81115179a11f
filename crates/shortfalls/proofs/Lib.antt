-- The laws of shortfalls, for this crate and those above it.
pub mod Sums
pub mod Along
pub mod Written
pub mod Walked
pub mod Answered
pub mod Meaning
pub mod Examples
