pub mod Judged
pub mod Verdict
