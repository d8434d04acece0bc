pub mod Quotients
pub mod Values
pub mod Orders
mod Examples
