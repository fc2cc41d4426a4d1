pub mod Writing
pub mod forms
