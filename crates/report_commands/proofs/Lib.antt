mod Ended
mod Reasoned
mod Told
mod Prospected
