-- What the contracts cite: a row worked out anew.
pub mod Worked
