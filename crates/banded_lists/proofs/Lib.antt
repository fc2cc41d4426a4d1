pub mod Past
pub mod Storing
pub mod Equal
pub mod Manual
