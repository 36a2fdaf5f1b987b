pub mod ConstantValues
mod Told
mod Loops
