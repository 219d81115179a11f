-- Numbers behind their length bytes, by their offsets and by their hashes.
pub mod Inner
