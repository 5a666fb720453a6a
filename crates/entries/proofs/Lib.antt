-- Laws of the entries and of the kinds. Other crates cite them.
pub mod Forms
pub mod ByKind
pub mod ByTable
pub mod Search
pub mod Spans
pub mod EachKind
