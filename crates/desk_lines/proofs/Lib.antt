-- The desk's laws: what a well formed line has behind its letter, and what each kind of line answers.
pub mod Good
pub mod Answering
pub mod Left
pub mod Outputs
