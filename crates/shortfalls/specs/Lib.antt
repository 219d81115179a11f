-- Request 1: kits that a bin almost fills.
pub mod Shortfalls
pub mod Inner
