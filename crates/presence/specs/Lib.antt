pub mod Present
pub mod Counts
