pub mod Opened
pub mod Lumps
pub mod Standing
pub mod Weights
pub mod Arriving
pub mod Turns
pub mod Advancing
pub mod Changing
