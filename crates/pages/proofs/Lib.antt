-- The laws of the pages, for this crate and those above it.
pub mod Bookmarks
pub mod RowAt
pub mod Reaching
pub mod After
pub mod AfterWithin
pub mod AfterContaining
pub mod Turned
