pub mod Same
pub mod Fault
pub mod Books
pub mod Laid
pub mod Earlier
