pub mod Painted
pub mod Paintings
pub mod Masked
pub mod forms
