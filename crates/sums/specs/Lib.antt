-- Rows of sums.
pub mod Internal
