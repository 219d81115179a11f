-- Laws of what the writer sets down.
pub mod Records
pub mod Whole
pub mod Carried
pub mod Walked
