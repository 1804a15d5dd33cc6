pub mod Compacted
pub mod Matched
pub mod Beyond
