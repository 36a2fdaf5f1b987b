pub mod Coded
pub mod Framed
pub mod Parted
pub mod Whole
