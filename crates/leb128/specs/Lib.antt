pub mod Joining
pub mod Numbers
pub mod Reading
pub mod Writing
