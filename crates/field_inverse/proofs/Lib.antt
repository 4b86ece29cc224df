-- Laws of Euclid's remainders.
pub mod Euclid
