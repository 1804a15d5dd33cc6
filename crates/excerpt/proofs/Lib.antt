pub mod Reaching
pub mod Flagging
pub mod Excerpted
