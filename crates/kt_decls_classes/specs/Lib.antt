pub mod Faults
pub mod Kinds
pub mod Entries
pub mod Data
