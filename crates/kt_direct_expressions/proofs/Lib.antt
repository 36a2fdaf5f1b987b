pub mod Conditions
pub mod DataClasses
pub mod Lefts
