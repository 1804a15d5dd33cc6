pub mod Operators
pub mod Rows
