-- The bank's calls for C.
pub mod Bank
