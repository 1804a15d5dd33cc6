pub mod Judged
pub mod Joins
pub mod Exactly
pub mod Beyond
