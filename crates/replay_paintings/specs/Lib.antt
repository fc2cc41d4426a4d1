-- What the contracts cite: the samples of a row, and their paintings.
pub mod Samples
pub mod Paintings
