pub mod Sums
pub mod Parts
pub mod Products
pub mod Examples
