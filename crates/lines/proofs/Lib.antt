pub mod Pages
pub mod Decimal
pub mod Lengths
