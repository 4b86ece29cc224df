-- Laws of decimal numbers, of bytes put into a buffer, and of text written into it.
pub mod Decimals
pub mod Puts
pub mod Writes
