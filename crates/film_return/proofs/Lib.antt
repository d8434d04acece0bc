pub mod Numbered
pub mod Tracks
pub mod Films
