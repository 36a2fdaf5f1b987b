pub mod Counted
pub mod Parting
