pub mod RowKinds
pub mod Faults
pub mod EntriesJudged
mod Ending
mod Texts
