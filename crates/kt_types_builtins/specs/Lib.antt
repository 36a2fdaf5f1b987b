pub mod Types
pub mod Throwables
pub mod Functions
pub mod Members
