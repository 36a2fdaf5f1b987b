pub mod Types
pub mod Owned
pub mod Literals
