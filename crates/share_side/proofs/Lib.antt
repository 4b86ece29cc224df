-- Laws of sides and of their weights.
pub mod Examples
pub mod Sides
pub mod Parts
