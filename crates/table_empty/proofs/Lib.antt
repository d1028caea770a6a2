pub mod Laying
pub mod EmptyTree
