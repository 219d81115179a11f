-- Laws of judging a card.
pub mod Head
pub mod Lines
pub mod Walk
