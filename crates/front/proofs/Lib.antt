pub mod ByKind
pub mod Asking
