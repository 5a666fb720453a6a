-- Laws of the reader of contents: its ways out.
pub mod Reading
