-- Laws of rows and of those that have no fault. Other crates cite them.
pub mod RowFaults
pub mod PassingRows
pub mod PassingFigures
