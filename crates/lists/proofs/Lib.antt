pub mod Booleans
pub mod Cuts
pub mod Halving
pub mod Laws
pub mod Places
pub mod Rows
pub mod Stores
pub mod Totals
