-- Document 01, "Calls and what they answer".
pub mod Calls
