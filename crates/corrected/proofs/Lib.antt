-- Laws of a corrected sheet: what is read of it, when it passes, and which answers stay. Other crates cite them.
pub mod SameContents
pub mod Apart
pub mod WithRow
pub mod OtherBytes
pub mod NewRows
pub mod WholeCheck
pub mod Beside
pub mod Stands
pub mod SameAnswers
pub mod AllSame
pub mod Minutes
pub mod OwnBytes
pub mod OnlyRow
pub mod StillBytes
