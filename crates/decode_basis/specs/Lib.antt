-- Lagrange's basis polynomials by division.
pub mod Internal
