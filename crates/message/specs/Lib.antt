-- Messages: their bytes, the tests of writing and reading, and both round trips.
pub mod Format
pub mod RoundTrips
