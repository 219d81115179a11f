-- The laws of repeats, for this crate and those above it.
pub mod Repeats
