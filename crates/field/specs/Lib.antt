-- The prime field: its moduli.
pub mod Modulus
