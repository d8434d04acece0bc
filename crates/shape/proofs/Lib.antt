pub mod OneMoov
pub mod Tracks
pub mod Walking
pub mod Shaped
pub mod Callers
mod Examples
