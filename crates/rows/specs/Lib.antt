pub mod Term
pub mod Conditions
