-- Laws of refusals and limits.
pub mod Chains
pub mod Answered
pub mod Except
pub mod Limits
