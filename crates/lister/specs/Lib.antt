-- The plan lister: the text of a plan.
pub mod Listing
pub mod Prints
pub mod Internal
