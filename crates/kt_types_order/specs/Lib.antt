pub mod Below
pub mod Graph
pub mod Climbing
pub mod Laws
