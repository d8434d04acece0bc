pub mod Runs
pub mod Syncs
pub mod Dealing
pub mod Standing
