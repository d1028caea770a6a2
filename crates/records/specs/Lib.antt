pub mod Bytes
pub mod ListRecord
pub mod Decode
