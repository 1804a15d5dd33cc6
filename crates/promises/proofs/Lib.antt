pub mod Demand1
pub mod Demand2
pub mod Demand3
pub mod Standing
pub mod Sources
pub mod Waits
pub mod Counts
pub mod AtOnce
pub mod Compacted
pub mod Damage
pub mod Cases
-- what they rest on
pub mod Refused
pub mod Verdict
pub mod Calls
pub mod Alike
pub mod Fresh
pub mod Matched
