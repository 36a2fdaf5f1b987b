-- How many levels a phrase, and a file, has.
pub mod Room
pub mod Holding
pub mod TypeLevels
pub mod LevelsHeld
pub mod FileLevels
