pub mod Canonical
pub mod Entries
pub mod Storing
pub mod Testing
pub mod Found
pub mod Told
pub mod Bounds
