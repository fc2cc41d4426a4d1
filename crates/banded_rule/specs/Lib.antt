pub mod PlainRule
pub mod forms
