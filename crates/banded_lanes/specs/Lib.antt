pub mod LaneRule
pub mod Conditions
pub mod Edges
pub mod forms
