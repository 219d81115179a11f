-- The laws of an input that is read in pieces.
pub mod Input
pub mod Cutting
