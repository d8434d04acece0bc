pub mod Sums
pub mod Syncs
pub mod Turns
