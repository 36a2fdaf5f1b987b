pub mod Meanings
pub mod Pushing
pub mod Operands
pub mod Arguments
pub mod Found
