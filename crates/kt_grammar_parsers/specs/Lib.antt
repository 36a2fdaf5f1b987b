pub mod Parsers
pub mod Phrases
pub mod Sentences
