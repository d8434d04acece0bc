pub mod Touched
pub mod Wholes
pub mod Walking
pub mod Filling
pub mod Counting
pub mod Listing
