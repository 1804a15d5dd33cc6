pub mod Calls
pub mod Promises
pub mod Unique
pub mod Steps
pub mod HowItStands
pub mod Values
pub mod Beyond
