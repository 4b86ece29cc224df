-- The host's product on bytes, and a host's whole part.
pub mod Host
pub mod Answer
pub mod Internal
