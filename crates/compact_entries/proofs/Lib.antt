pub mod Merging
pub mod Widths
