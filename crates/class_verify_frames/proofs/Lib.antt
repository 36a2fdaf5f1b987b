pub mod Pairs
pub mod Spreads
pub mod Offsets
