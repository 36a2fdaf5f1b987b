mod Faults
mod Rejected
mod Accepted
