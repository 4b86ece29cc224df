-- Planning: a job's numbers, the tests of a plan, and what a plan answers.
pub mod Planning
pub mod Words
