pub mod Patterns
pub mod Filling
