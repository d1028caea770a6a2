pub mod Leaves
pub mod Tied
pub mod Marks
pub mod Walk
