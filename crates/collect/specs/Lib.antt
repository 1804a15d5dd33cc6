pub mod Tops
pub mod Kept
