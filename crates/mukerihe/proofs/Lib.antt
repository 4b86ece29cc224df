-- Laws of the host's product on bytes, and of its answer.
pub mod Examples
pub mod Outcomes
pub mod Answers
