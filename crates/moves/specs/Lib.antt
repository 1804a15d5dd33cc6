pub mod Steps
pub mod Standing
pub mod Above
pub mod Fits
pub mod Runs
