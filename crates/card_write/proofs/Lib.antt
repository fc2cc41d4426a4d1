-- The laws that other crates cite.
pub mod Lengths
pub mod Behind
pub mod Putting
pub mod Pairing
pub mod Comparing
pub mod Refusing
