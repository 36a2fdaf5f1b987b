pub mod InScopes
pub mod SameRows
pub mod LocalRead
pub mod Declares
