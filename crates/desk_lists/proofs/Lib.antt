-- Laws of the list that a line types.
pub mod Typing
