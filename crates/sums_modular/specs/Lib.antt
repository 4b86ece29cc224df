-- Sums of products modulo each prime.
pub mod Internal
