-- Reading a line of ten numbers.
pub mod Line
pub mod Internal
