-- Elements as bytes.
pub mod Bytes
pub mod Internal
