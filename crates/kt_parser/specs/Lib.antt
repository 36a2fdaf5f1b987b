pub mod Trees
pub mod Refusals
pub mod Laws
