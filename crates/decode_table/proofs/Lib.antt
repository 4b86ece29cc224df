-- Laws of tables put together from weighted answers.
pub mod Fits
pub mod Pieces
