pub mod TrackList
pub mod Lines
