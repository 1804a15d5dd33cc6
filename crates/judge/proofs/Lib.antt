pub mod Chain
pub mod Counts
pub mod Links
pub mod Pass
pub mod Wanted
