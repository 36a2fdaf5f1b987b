pub mod Appending
pub mod Finding
pub mod Stored
