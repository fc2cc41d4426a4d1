pub mod Excluding
pub mod Tolerance
pub mod MaskedLanes
