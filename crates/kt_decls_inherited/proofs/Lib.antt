pub mod AsRuled
mod Counting
mod DescriptorWays
mod DescriptorsAsRuled
mod Meant
mod PropertiesAsRuled
mod PropertyWays
mod Same
mod Stepping
mod Told
mod Ways
