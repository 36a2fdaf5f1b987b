pub mod Values
pub mod Numbers
pub mod Throwables
pub mod Texts
pub mod Runs
pub mod Heap
pub mod Laws
