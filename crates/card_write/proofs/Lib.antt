-- Laws of the writer.
pub mod Lines
pub mod Sorting
pub mod Whole
