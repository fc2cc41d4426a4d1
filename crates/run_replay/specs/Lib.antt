-- What the contracts cite: a tally of rows.
pub mod Tally
