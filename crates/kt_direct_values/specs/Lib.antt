pub mod Forms
pub mod Agree
