-- The definition of geographic to plane, by the paper's steps.
pub mod Forward
