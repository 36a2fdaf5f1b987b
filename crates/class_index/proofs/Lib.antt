pub mod Tests
mod AddingTexts
mod AddingMembers
