pub mod Refusing
pub mod Facts
