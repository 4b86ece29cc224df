-- Laws of the bank's calls for C.
pub mod Examples
pub mod Outcomes
