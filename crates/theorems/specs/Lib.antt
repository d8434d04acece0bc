pub mod Entries
pub mod Demand
pub mod Refusals
pub mod Slips
