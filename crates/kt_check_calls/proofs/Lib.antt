pub mod Behind
pub mod Callables
