pub mod Constants
pub mod Flags
pub mod Seen
