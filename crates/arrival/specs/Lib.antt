-- Arrivals: an answer's message is taken into the store, or refused.
pub mod Arriving
pub mod Internal
