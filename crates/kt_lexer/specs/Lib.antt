pub mod Characters
pub mod Lexemes
pub mod Texts
pub mod Scanning
pub mod Sources
