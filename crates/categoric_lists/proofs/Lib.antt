pub mod Numbers
pub mod Ranges
pub mod Refusing
