pub mod Categories
pub mod Table
pub mod forms
