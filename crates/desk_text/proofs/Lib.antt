-- The laws of stretches, amounts and lines.
pub mod Parted
pub mod Amounts
pub mod Letters
pub mod Lines
