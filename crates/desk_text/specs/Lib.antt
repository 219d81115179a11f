-- Document 01, "The desk program": what a line is, without any table.
pub mod Parted
pub mod Amounts
pub mod Letters
pub mod Lines
pub mod Inner
