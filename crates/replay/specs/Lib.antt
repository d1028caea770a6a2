pub mod Replayed
pub mod Surveys
