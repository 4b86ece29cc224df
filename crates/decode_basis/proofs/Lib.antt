-- Laws of Lagrange's basis polynomials by division.
pub mod Examples
pub mod Steps
pub mod Weights
