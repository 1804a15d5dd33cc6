pub mod Bytes
pub mod Setting
pub mod Rows
