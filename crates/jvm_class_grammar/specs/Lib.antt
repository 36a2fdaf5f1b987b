pub mod Coded
pub mod File
pub mod Grammar
pub mod Instructions
pub mod Kinds
pub mod Laws
