-- The laws that other crates cite.
pub mod Stored
pub mod AnyKind
pub mod SampleRule
