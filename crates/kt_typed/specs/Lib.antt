pub mod Operators
pub mod Bodies
pub mod Headers
pub mod Units
pub mod Order
