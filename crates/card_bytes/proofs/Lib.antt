pub mod Numbers
pub mod LittleEndian
pub mod Overwriting
pub mod Entries
