pub mod Stepping
pub mod Sorts
