-- What tells a sound table word for word; a kit that is entered and deleted at once, and that the converse does not hold.
pub mod Inner
