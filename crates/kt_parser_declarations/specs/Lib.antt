pub mod StepTurns
pub mod Openings
pub mod Scopes
pub mod Rests
