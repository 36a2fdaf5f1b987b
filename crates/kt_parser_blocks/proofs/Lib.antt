pub mod Depth
pub mod Counted
pub mod Entries
pub mod Tried
pub mod Passing
