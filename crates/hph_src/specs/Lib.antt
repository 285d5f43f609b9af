pub mod Faults
pub mod Files
pub mod Script
pub mod Sink
pub mod StdSink
pub mod Tree
