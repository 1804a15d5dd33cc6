pub mod Reached
pub mod Runs
pub mod Scene
pub mod Kept
pub mod Damage
pub mod Beyond
