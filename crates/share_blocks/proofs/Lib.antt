-- Laws of encoding: what fits, offsets and rows.
pub mod Fitting
pub mod Offsets
pub mod Rows
