pub mod Updating
pub mod LaneForms
pub mod Chunk
pub mod LaneEdges
pub mod FarEdges
pub mod SampleLaw
pub mod LaneLaw
