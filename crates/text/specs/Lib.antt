-- Text as bytes, decimal numbers, and text in a buffer.
pub mod Ascii
pub mod Decimal
pub mod Numerals
pub mod Internal
