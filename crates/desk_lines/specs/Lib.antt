-- Document 01, "The desk program": its sizes, what each line answers, and what it leaves.
pub mod Sizes
pub mod Desk
pub mod Inner
