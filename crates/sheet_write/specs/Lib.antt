-- Document 01, "Write the sheet at the start of a lent output".
pub mod Inner
