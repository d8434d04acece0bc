pub mod Averages
pub mod Computed
