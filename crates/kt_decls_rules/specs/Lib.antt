pub mod Names
pub mod Tables
pub mod Erasure
pub mod Members
pub mod Constants
pub mod Rules
pub mod ClassRules
pub mod Headers
