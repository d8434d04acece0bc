pub mod Index
pub mod Looked
