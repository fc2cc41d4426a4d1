pub mod Choosing
pub mod Edges
pub mod Inside
pub mod LaneLaw
