pub mod Rows
pub mod Bytes
pub mod InOrder
