pub mod Ends
pub mod Least
