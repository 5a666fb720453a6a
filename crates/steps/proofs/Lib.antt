-- Laws of the steps: the wide product split, and how far each reaches.
pub mod Splitting
pub mod StepBounds
