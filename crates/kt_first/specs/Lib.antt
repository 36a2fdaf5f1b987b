pub mod Programs
pub mod Trees
pub mod Answers
pub mod Laws
