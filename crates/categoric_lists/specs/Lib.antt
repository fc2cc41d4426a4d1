pub mod Whole
pub mod Range
pub mod Keys
pub mod Ascending
