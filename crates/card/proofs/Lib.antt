-- Laws of the card's bytes and of the order of its lines.
pub mod Moved
pub mod Orders
pub mod Spots
pub mod Turned
pub mod Written
pub mod Accepted
pub mod Codec
pub mod Offsets
