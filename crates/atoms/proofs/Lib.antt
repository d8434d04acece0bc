pub mod Pieces
pub mod Laws
pub mod Lengths
pub mod Into
pub mod Levels
mod Examples
