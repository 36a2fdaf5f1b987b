pub mod Expanded
pub mod FrameLoops
pub mod FrameRead
pub mod Puts
pub mod Ruled
pub mod Spelled
