-- Laws of signed reading: it and its way back, what they return, exactness, and the words that hold them.
pub mod Examples
pub mod Readings
pub mod Outcomes
pub mod Exactness
pub mod Words
