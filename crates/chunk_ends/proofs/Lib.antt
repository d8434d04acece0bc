pub mod RunEnds
pub mod Ends
