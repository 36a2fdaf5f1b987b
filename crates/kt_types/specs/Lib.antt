pub mod Bounds
pub mod Null
pub mod Kinds
