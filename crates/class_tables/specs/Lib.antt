pub mod Objects
pub mod Dispatch
