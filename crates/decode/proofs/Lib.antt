-- Laws of decoding.
pub mod Answering
pub mod Chosen
pub mod Stored
pub mod Tables
pub mod Outcomes
