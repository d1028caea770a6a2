pub mod Writing
pub mod Starts
pub mod Entries
pub mod PutEntries
