-- What a function of the face promises, whatever the call.
pub mod Face
pub mod Inner
