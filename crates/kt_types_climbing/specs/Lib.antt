pub mod Reading
pub mod Weights
pub mod Nodes
pub mod OnlyWays
