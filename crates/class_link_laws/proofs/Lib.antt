mod Lists
mod Bounds
mod Chains
mod Classes
mod Closing
