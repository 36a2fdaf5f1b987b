pub mod Turns
pub mod FurtherItems
pub mod SeparatedItems
pub mod Turning
pub mod Ways
pub mod Choosing
pub mod Optional
pub mod HeldBack
