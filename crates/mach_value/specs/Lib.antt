pub mod Heaps
pub mod Paths
pub mod Exports
pub mod Openings
pub mod Exporting
pub mod Imported
pub mod Laws
pub mod Access
