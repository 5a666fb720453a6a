-- The definitions of the Survey's printed steps.
pub mod Steps
pub mod Wide
