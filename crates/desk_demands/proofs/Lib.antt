-- The demands at the desk.
pub mod Made
pub mod Outputs
pub mod Told
pub mod Numbers
pub mod Said
pub mod Session
