pub mod DescriptorReading
pub mod Descriptors
pub mod Entries
pub mod Laws
pub mod Mentions
pub mod Modified
pub mod ModifiedReading
pub mod Numbering
