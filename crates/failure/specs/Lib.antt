pub mod Failure
pub mod Blocks
