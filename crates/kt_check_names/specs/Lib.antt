pub mod Views
pub mod Answers
pub mod Facts
pub mod Lookups
