pub mod Places
pub mod Falling
pub mod Values
pub mod Telling
