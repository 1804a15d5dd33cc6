pub mod Told
pub mod Laid
