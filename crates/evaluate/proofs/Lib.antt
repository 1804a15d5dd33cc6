pub mod Tables
pub mod Packed
pub mod Rows
