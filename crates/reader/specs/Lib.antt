-- The definitions of the reader of contents.
pub mod Read
