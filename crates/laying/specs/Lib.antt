pub mod Told
pub mod LaidIn
