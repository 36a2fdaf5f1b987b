pub mod Lump
pub mod Text
pub mod History
pub mod Meaning
pub mod World
pub mod Refusals
pub mod Report
pub mod StackCode
