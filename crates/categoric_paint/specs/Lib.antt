pub mod forms
