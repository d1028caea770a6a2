pub mod Records
pub mod Rows
pub mod Naming
pub mod Ends
