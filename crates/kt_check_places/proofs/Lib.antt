pub mod Going
pub mod Shown
pub mod Looped
