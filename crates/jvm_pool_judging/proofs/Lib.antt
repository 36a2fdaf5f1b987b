pub mod Both
pub mod Told
