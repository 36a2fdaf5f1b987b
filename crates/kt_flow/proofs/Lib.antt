pub mod Same
mod Rows
