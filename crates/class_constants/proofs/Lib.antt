mod Walks
mod Counting
pub mod Growing
