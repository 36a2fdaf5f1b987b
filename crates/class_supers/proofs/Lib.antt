mod Marks
mod Searching
pub mod Rows
mod LeadingBack
