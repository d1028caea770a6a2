pub mod Layout
pub mod Header
