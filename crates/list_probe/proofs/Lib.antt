pub mod Building
pub mod Order
pub mod Testing
pub mod Writing
