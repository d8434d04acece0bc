pub mod Returns
pub mod Joining
pub mod Following
