pub mod Deciding
pub mod Leading
pub mod Starting
pub mod Walk
