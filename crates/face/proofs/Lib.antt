-- The laws of the face.
mod Face
