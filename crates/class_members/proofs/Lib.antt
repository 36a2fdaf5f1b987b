mod Chains
mod Links
mod Finding
