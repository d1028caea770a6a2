pub mod Computed
pub mod Citing
pub mod Faults
pub mod Surveying
