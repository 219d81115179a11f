-- What tells a sound table word for word, what striking out undoes, and where that ends.
pub mod Siblings
pub mod Told
pub mod Undone
pub mod Again
