pub mod Rooms
pub mod Inserting
pub mod Ascending
pub mod Putting
pub mod Tables
