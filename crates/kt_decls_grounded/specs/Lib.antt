pub mod Grounded
