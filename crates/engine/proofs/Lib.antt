pub mod Known
pub mod Rows
pub mod Waits
