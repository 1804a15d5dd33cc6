pub mod Verdict
pub mod Tried
