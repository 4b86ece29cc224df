-- Masks drawn from random words: how they are drawn, that no mask is likelier than another, and which words are used.
pub mod Drawing
pub mod Uniform
pub mod Filled
