pub mod Checked
pub mod DescriptorKind
pub mod JudgedSoFar
