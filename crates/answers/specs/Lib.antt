-- What a call answers: the paper's number and value of each answer, and a reply as a program holds it.
pub mod Answers
pub mod Inner
