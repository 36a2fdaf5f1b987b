pub mod Types
pub mod Hierarchy
pub mod Sizes
