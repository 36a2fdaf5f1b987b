pub mod Depth
pub mod LoopBody
