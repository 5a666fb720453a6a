-- Laws of figures as they are given to a test, and of the rows of the small bodies that have no fault. Other crates cite them.
pub mod AsGiven
pub mod PassingRows
pub mod PassingFigures
