-- Sharing: a matrix goes out as one masked block to each host.
pub mod Sharing
