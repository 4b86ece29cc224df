-- The sides of a job, and the weights of their blocks and masks.
pub mod Sides
pub mod Internal
