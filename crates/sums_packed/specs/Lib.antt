-- Two rows as one.
pub mod Internal
