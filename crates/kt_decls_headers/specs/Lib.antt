pub mod Functions
pub mod Overridden
pub mod Classes
pub mod Files
