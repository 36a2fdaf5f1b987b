pub mod Noted
pub mod Noting
pub mod Limits
pub mod Parts
pub mod Place
pub mod Walking
