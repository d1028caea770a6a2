pub mod Layout
pub mod Node
pub mod Free
pub mod Boxes
pub mod Header
pub mod Tally
pub mod Told
