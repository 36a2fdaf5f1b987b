mod Passing
mod Walking
