-- The laws that other crates cite, and what the proofs of this crate share.
pub mod Adding
pub mod Growing
pub mod Packing
pub mod Room
pub mod Spreading
pub mod Weighing
pub mod Unpacking
