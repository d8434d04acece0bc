pub mod Source
pub mod Profile
pub mod Track
pub mod Movie
pub mod Rows
pub mod ByTracks
