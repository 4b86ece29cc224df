-- Elements as signed whole numbers.
pub mod Signed
pub mod Readings
