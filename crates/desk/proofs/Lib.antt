-- The laws of serving an input that comes in pieces.
pub mod Serving
pub mod Empty
