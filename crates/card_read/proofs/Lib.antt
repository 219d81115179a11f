-- Laws of the reader.
pub mod Lines
pub mod Placing
pub mod Spots
pub mod Answers
