-- Tokens and kinds of tokens: what tells them apart, what they stand for, what begins and what follows a phrase.
pub mod Apart
pub mod Distinct
pub mod Meant
pub mod Closing
pub mod Begins
pub mod Keywords
pub mod Following
pub mod Meanings
pub mod Witnesses
pub mod BeforeArrow
