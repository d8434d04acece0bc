pub mod Formats
pub mod Tracks
