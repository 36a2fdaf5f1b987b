pub mod Blanks
pub mod Captured
pub mod Seen
