pub mod Environments
pub mod Weights
pub mod Closed
pub mod Steps
pub mod OnlyWays
