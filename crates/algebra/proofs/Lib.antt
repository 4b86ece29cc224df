-- Laws of the algebra, over any modulus q.
pub mod Orders
pub mod Tests
pub mod Lists
pub mod Fronts
pub mod Grids
pub mod Stacks
pub mod Modular
pub mod Primes
pub mod Inverses
pub mod Sums
pub mod Polynomials
pub mod Division
pub mod Interpolation
pub mod Sets
pub mod Points
