pub mod Leaves
pub mod Marking
pub mod Stack
pub mod Passing
pub mod RootPassing
pub mod Shares
pub mod Pool
pub mod Tying
