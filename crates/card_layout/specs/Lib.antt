pub mod Fields
pub mod Settings
pub mod Entries
pub mod Stored
pub mod Cards
pub mod Refusals
