pub mod Answers
pub mod Samples
pub mod Refusals
pub mod Settings
