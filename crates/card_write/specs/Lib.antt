-- Request 5, "Write a card for a held list".
pub mod Inner
