mod Track
mod Movie
mod Refusals
mod Film
mod Place
mod Walk
mod Large
mod Tables
mod Counts
mod Steps
pub mod Compact
