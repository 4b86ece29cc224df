-- Laws of planning.
pub mod Examples
pub mod Tested
pub mod Ranges
pub mod Points
pub mod Outcomes
pub mod Facts
pub mod Then
pub mod Windows
pub mod Sizes
