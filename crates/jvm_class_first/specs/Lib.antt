pub mod ClassFile
pub mod Finding
pub mod Heights
pub mod Instructions
pub mod Laws
pub mod Parts
