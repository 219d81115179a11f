-- The desk's input as calls, the demands at the desk, and document 01's own session.
pub mod Text
pub mod Made
pub mod Demands
pub mod Session
