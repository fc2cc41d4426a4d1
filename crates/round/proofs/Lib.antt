pub mod NotNan
pub mod ReadOff
