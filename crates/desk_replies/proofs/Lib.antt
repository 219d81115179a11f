-- The laws of printing.
pub mod Replies
