-- The documents' own examples, cases of the requests, and every limit.
pub mod ShortCases
pub mod Limits
pub mod Requests
