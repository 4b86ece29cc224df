-- Laws of the product and of its outcomes.
pub mod Examples
pub mod Rows
pub mod Outcomes
