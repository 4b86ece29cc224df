-- Laws of sums of products modulo each prime.
pub mod Examples
pub mod Picked
pub mod Exact
