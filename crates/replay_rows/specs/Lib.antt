-- What the contracts cite: the parts of a row, and the kinds of rows.
pub mod Parts
pub mod Kinds
