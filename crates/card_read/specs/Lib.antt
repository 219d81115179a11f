-- Request 5, "read a card into the index".
pub mod Inner
