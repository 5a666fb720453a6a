-- The definition of convergence and scale, by the paper's steps.
pub mod Grid
