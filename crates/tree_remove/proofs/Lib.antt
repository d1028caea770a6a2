pub mod Members
pub mod Finding
pub mod Depth
pub mod Renewing
pub mod Cutting
pub mod Taking
pub mod Shrinking
pub mod Removing
