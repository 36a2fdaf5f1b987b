pub mod Classes
pub mod Meanings
pub mod Found
pub mod TypeParameters
pub mod Functions
pub mod TopFunctions
pub mod Constants
