-- Decoding: the table from the answers of the K lowest-numbered hosts heard.
pub mod Decoding
pub mod Internal
