-- Where a torn sheet is at fault.
pub mod Faults
