pub mod Mentions
pub mod Missing
