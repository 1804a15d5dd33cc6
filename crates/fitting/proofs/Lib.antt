pub mod Alone
pub mod Places
pub mod Fitted
