pub mod Runs
pub mod Judging
pub mod Room
pub mod First
pub mod Promises
