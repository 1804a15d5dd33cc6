pub mod Renamed
pub mod Rows
pub mod Renumbered
pub mod Left
pub mod Bytes
pub mod Tabled
pub mod InOrder
