-- Laws of packed rows.
pub mod Exact
