pub mod Throwing
pub mod Courses
pub mod Texts
pub mod Boxes
pub mod Objects
pub mod Asking
