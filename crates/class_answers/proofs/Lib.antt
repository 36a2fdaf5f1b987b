pub mod Held
pub mod Lines
pub mod Names
pub mod Streams
