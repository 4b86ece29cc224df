-- Laws of the hosts heard.
pub mod Examples
pub mod Bits
pub mod Lowest
