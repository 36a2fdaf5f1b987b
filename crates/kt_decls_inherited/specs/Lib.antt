pub mod Descriptors
pub mod Erased
pub mod Known
pub mod Properties
pub mod Rows
pub mod Sights
