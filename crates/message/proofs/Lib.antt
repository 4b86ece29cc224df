-- Laws of messages.
pub mod Tests
pub mod Fields
pub mod Parts
pub mod Outcomes
pub mod RoundTrips
