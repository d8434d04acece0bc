pub mod Track
pub mod Refusals
pub mod TrackRows
