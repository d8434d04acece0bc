pub mod Sizes
pub mod Steps
pub mod Ahead
pub mod Passing
pub mod Alone
pub mod Places
pub mod Walking
mod Examples
