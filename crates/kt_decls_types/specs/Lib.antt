pub mod Names
pub mod Scopes
pub mod References
pub mod Answers
