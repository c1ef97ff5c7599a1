mod Continuing
mod Ending
mod Faults
mod Followed
