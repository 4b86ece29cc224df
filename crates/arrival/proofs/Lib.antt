-- Laws of arrivals.
pub mod Examples
pub mod Outcomes
pub mod Blocks
