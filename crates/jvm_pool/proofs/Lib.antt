pub mod Closed
pub mod DescriptorLaws
pub mod Fronts
pub mod Growing
pub mod Kept
pub mod Order
pub mod Prefixes
pub mod Same
pub mod Seeking
pub mod Spelled
pub mod Texts
pub mod Types
pub mod Units
mod Judged
