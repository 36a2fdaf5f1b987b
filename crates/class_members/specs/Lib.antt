pub mod Above
pub mod Members
pub mod Finding
