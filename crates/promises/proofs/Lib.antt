-- The theorems that belong to no one function.
pub mod NearestIsNearest
pub mod HalfIsHalf
pub mod Told
pub mod OneAnswer
pub mod AnswersFit
pub mod Refused
pub mod Counts
pub mod SizesAndSigns
pub mod Corrections
pub mod OneRow
pub mod OneAnswerForC
pub mod Redo
