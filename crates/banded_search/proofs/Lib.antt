pub mod OneBand
pub mod ScanByIndices
pub mod Ascent
pub mod Counting
pub mod Indexing
pub mod ColumnTests
