pub mod Lines
pub mod Worlds
pub mod Runs
pub mod Causes
pub mod Endings
