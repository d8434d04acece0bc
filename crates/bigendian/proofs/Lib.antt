pub mod Halves
pub mod Laws
pub mod Parts
pub mod Entries
