pub mod Tests
pub mod Casts
