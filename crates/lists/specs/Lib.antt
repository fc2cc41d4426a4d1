pub mod Tabulate
pub mod Padded
pub mod Lanes
pub mod Outer
pub mod Each
