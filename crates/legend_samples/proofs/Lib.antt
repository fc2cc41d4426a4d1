-- What the proofs of this crate share.
mod Blocked
mod Splits
