-- Laws of what is written. Other crates cite them.
pub mod WordByWord
pub mod RowWords
pub mod EntryWords
pub mod EntryByEntry
pub mod ReadBack
