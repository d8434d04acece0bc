pub mod Overs
pub mod Scales
pub mod Keeping
pub mod Units
pub mod Following
pub mod Joining
