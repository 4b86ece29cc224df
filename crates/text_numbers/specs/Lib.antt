-- Whole numbers and words in plain text, and positions in a text.
pub mod Numbers
pub mod Words
pub mod Positions
