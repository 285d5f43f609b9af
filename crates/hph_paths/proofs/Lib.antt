mod Segments
mod Slashes
