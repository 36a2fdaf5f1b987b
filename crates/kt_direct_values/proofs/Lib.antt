pub mod Passing
pub mod Written
