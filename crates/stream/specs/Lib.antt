-- The lines of an input, read at once or in pieces.
pub mod Search
pub mod Stream
pub mod Pieces
