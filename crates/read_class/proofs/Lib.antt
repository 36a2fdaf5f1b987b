mod Answered
mod Judged
