pub mod Marks
pub mod Settling
pub mod Searching
