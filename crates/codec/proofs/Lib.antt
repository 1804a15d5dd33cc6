pub mod Reading
pub mod Judged
pub mod Parts
pub mod Writing
pub mod RoundTrip
