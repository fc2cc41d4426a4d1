-- The chunking rule; the law of a chunk, for each kind, that it rests on; and what shows that its conditions are met and needed.
pub mod Demand3
pub mod ExportedRule
pub mod AllHold
pub mod Witnesses
pub mod OneRule
mod ChunkLaws
mod Alike
mod Zeros
