pub mod Edges
pub mod Forms
