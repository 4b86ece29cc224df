-- The words of the algebra, a file for each part of it.
pub mod Lists
pub mod Sets
pub mod Sums
pub mod Modular
pub mod Polynomials
