-- Laws of reading numbers and words from a text, and of positions in it.
pub mod Steps
pub mod Texts
pub mod ReadLoop
pub mod Written
pub mod Words
pub mod Positions
