pub mod OuterColors
pub mod Band
pub mod Order
