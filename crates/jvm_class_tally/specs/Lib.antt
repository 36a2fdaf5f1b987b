pub mod Judges
pub mod Tallies
