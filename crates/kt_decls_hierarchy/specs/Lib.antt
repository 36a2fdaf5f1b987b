pub mod Drafts
pub mod Marks
pub mod Marking
