-- The laws that other crates cite, and what the proofs of this crate share.
pub mod Rules
pub mod FirstKey
pub mod Ascent
