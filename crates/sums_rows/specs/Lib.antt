-- Sums of multiples of rows.
pub mod Internal
