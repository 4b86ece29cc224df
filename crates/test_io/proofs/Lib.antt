-- Laws for the proofs of `test_io`.
pub mod Counts
