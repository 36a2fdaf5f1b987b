mod Names
mod Joined
pub mod IndexRules
