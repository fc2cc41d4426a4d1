pub mod Entries
pub mod forms
