pub mod SameKind
pub mod FirstPair
pub mod Chosen
