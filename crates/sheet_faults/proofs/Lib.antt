-- Laws of faults in a sheet.
pub mod Cuts
pub mod Fronts
pub mod Runs
pub mod Faults
pub mod Torn
pub mod Rules
