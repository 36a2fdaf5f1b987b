pub mod tokens
pub mod parts
pub mod types
pub mod expressions
pub mod statements
pub mod declarations
pub mod levels
mod examples
