-- How a call is refused: tests in order, each with its number (01, "What is turned down"), and the limits that several
-- calls test.
pub mod Numbers
pub mod Chain
pub mod Limits
