pub mod Describing
pub mod Overriding
