-- Tables put together from weighted answers.
pub mod Internal
