pub mod Numbers
pub mod Tabulated
pub mod Padding
pub mod Filling
pub mod LanesOf
pub mod Entries
pub mod Each
