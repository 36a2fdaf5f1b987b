mod Forms
mod Groundless
mod Seen
mod Well
