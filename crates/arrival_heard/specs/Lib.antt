-- The hosts heard, as one number.
pub mod Heard
