pub mod AllHold
pub mod AllGiven
