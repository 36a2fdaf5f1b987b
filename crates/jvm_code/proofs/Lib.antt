pub mod Starts
pub mod Passes
pub mod Following
pub mod Lists
pub mod Theorem
pub mod Every
pub mod Whys
