-- Laws of the lister's text.
pub mod Lines
pub mod Strides
pub mod Room
pub mod Replies
