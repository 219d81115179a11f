-- Request 5, "A card for a single kit".
pub mod Card
pub mod Reading
pub mod Calls
pub mod Inner
