pub mod Record
pub mod Painters
pub mod SampleRule
