pub mod Examples
pub mod Slips
pub mod Rests
pub mod Faults
pub mod Found
pub mod Promises
pub mod Readers
