-- The printed figures are those that the definitions give.
pub mod CasesHold
