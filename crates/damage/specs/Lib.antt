pub mod Scene
pub mod Reached
pub mod Damage
pub mod Activities
