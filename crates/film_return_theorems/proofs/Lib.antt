pub mod Scales
pub mod Orders
pub mod Meeting
pub mod Films
pub mod Sums
pub mod AnyOrder
pub mod Joining
