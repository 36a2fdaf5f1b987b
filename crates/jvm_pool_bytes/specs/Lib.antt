pub mod Laws
pub mod Names
pub mod Raws
pub mod Reading
pub mod Spelling
