-- What the contracts cite: a sample as an f32, an f32 cut toward zero, and the fields of a bit pattern.
pub mod Samples
pub mod Truncated
pub mod forms
