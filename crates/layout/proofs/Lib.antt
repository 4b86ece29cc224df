-- Laws of layouts.
pub mod Examples
pub mod Nests
pub mod Soundness
pub mod Choice
