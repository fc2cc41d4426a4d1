pub mod Rule
pub mod Exported
pub mod Cases
