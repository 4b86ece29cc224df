-- Laws of elements and their bytes.
pub mod Words
pub mod Bytes
