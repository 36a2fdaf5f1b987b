pub mod Rules
pub mod Below
