pub mod Counts
pub mod forms
