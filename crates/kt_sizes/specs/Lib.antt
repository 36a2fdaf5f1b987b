pub mod Counting
pub mod Capped
pub mod Weight
