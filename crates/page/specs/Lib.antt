-- The kinship page: a table as lines of text.
pub mod Page
pub mod Reading
pub mod Internal
