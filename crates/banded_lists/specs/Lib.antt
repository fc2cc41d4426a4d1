pub mod Padded
pub mod EqualBands
pub mod ManualRanges
