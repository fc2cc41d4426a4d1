pub mod Word
pub mod Hex
