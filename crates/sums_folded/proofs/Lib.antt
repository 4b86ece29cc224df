-- Laws of pairs of products and of the loops that add them.
pub mod Pairs
pub mod Steps
