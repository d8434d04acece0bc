pub mod Agreeing
pub mod Started
pub mod Forward
pub mod Stepped
