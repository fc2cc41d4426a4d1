pub mod Held
pub mod Exact
pub mod ThereAndBack
pub mod Built
