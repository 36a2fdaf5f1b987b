pub mod Formats
pub mod Lawful
pub mod Laws
pub mod Reads
