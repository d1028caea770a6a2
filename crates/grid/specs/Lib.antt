pub mod Position
pub mod Coordinate
pub mod Area
pub mod Side
pub mod Fraction
pub mod Says
pub mod Euclid
