-- What the contracts cite: the lists of a row, and the legend that it asks for.
pub mod Lists
pub mod Asked
