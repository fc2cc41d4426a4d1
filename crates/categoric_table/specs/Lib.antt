pub mod Rule
pub mod forms
