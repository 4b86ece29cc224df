-- Laws of headers.
pub mod Tests
pub mod Fields
pub mod Headers
pub mod Outcomes
