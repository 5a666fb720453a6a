-- The definitions by which a correction is judged.
pub mod Judge
