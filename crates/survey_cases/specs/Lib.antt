-- The worked figures of the Survey's sheets that are proved.
pub mod Bytes
pub mod CaseSheet
pub mod Cases
