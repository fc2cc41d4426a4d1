-- How proofs and code get to the rules: each file names what it is for.
pub mod ChunkLaw
pub mod ChunkOver
