pub mod Table
pub mod Spelling
pub mod Reading
pub mod Reach
pub mod Widths
pub mod Same
