-- Laws of the moduli and of powers.
pub mod Examples
pub mod Moduli
pub mod Powers
