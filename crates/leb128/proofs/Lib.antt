pub mod Cuts
pub mod Groups
pub mod Readings
pub mod Pieces
pub mod Puts
