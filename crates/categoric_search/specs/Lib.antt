-- What the contracts cite: a step of the search.
pub mod forms
