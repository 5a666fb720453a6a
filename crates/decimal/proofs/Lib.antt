pub mod DigitsRead
pub mod NumbersRead
pub mod Spelling
