pub mod Words
pub mod FirstRuns
pub mod Statuses
pub mod Headline
pub mod Stops
