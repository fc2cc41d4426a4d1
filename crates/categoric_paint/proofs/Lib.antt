-- What the proofs of this crate share.
pub mod Searching
pub mod Chunks
