-- Types are read exactly.
pub mod TypesRead
pub mod TypeParts
pub mod TypeLaws
