pub mod Layout
pub mod Lines
pub mod Changes
pub mod Rules
