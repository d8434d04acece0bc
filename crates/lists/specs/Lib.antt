pub mod Entries
pub mod Halving
pub mod Lists
pub mod Totals
