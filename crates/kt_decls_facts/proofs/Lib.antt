mod Linking
mod MeantSo
pub mod Split
