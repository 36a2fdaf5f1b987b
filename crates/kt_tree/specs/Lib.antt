pub mod Tokens
pub mod Types
pub mod Bodies
pub mod Declarations
pub mod Levels
pub mod Stages
