pub mod Stays
pub mod Topped
pub mod NewRows
pub mod Compacting
pub mod Writing
