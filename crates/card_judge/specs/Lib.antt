-- Request 5: the judge of a card.
pub mod Inner
