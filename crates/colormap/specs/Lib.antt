pub mod Positions
pub mod Spread
pub mod Made
