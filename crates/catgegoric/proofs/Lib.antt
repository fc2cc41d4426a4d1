pub mod Making
pub mod RangeKeys
mod Sizes
