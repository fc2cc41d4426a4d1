pub mod Colors
pub mod Keys
pub mod Ramps
pub mod Uses
