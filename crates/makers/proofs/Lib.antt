-- The proofs of the maker's table.
pub mod Labels
pub mod Slots
pub mod Answers
pub mod Pinned
