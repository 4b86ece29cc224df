-- Laws of sharing: sums and outcomes.
pub mod Examples
pub mod Sums
pub mod Outcomes
