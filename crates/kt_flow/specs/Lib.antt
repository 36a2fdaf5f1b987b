pub mod Sameness
pub mod Facts
pub mod Rows
