pub mod Locals
pub mod Declarations
