-- The host's block product.
pub mod Product
pub mod Internal
