-- The definitions of the library for C: what each answer is as a C struct.
pub mod Answers
