pub mod Bits
pub mod Subsets
pub mod Links
