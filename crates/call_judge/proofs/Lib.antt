pub mod Deciding
pub mod Touring
