pub mod Judged
mod Worked
