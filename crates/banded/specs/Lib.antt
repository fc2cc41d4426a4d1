pub mod Record
pub mod EqualBands
pub mod ManualRanges
pub mod Given
pub mod Unmappable
pub mod forms
