-- The laws that other crates cite, and what the proofs of this crate share.
pub mod Value
pub mod Lossless
pub mod Table
mod Bits
