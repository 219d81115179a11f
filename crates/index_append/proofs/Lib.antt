-- Laws of entering behind all that is held.
pub mod Places
pub mod Steps
pub mod Counted
pub mod Fork
pub mod Upcoming
