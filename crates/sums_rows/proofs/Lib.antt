-- Laws of combinations and of the loops that make them.
pub mod Steps
pub mod Exact
