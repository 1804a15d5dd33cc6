pub mod Search
pub mod Lanes
pub mod Blocks
pub mod Found
pub mod Rest
