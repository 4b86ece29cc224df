-- Laws of rows of sums.
pub mod Steps
pub mod Exact
pub mod Reduced
