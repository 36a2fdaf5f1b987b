mod ComingRight
pub mod Completed
mod Naming
pub mod Known
