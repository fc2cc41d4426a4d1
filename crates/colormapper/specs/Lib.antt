pub mod Rule
pub mod Settings
pub mod Unmappable
pub mod Tolerance
pub mod forms
