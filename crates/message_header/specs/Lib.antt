-- The header of a message: its bytes, its fields and their tests.
pub mod Header
pub mod Internal
