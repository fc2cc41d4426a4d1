pub mod Past
pub mod Unpacking
pub mod Outer
pub mod Ordering
