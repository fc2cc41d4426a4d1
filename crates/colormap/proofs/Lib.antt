pub mod Channels
pub mod Places
pub mod Making
