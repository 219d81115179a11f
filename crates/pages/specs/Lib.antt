-- Request 4: the pages of a listing.
pub mod Pages
pub mod Inner
