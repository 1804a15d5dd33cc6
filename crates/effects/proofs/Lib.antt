pub mod Gathering
pub mod Climbing
