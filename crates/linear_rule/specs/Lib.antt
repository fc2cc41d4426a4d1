pub mod Rule
pub mod Exception
pub mod forms
