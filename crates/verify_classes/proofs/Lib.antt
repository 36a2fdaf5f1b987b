mod Judged
mod Read
mod Words
