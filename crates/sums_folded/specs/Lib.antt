-- Sums of products, two at a time.
pub mod Internal
