pub mod Under
pub mod Chains
pub mod Arguments
