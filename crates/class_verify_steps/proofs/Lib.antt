pub mod Special
pub mod Taking
