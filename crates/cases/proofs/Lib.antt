-- The examples and limits, computed.
pub mod Opened
pub mod ShortCases
pub mod Limits
pub mod Requests
