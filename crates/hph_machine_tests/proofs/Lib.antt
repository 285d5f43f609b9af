mod Ended
mod Seen
