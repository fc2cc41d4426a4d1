pub mod Palettes
pub mod Asked
