pub mod Sets
pub mod Worth
pub mod Pass
