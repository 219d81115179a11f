-- Document 01, "The desk program": how a reply is printed.
pub mod Replies
pub mod Inner
