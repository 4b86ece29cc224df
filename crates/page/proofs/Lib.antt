-- Laws of the page.
pub mod Examples
pub mod Lengths
pub mod Places
pub mod Texts
pub mod Cells
pub mod Lines
pub mod Outcomes
