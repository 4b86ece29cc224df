-- Layouts: which exponents the blocks, the masks and the table have.
pub mod Exponents
pub mod Internal
pub mod Sound
