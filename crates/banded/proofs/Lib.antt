pub mod Records
pub mod Equal
pub mod Manual
pub mod Fold
pub mod GivenBands
