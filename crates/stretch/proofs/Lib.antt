pub mod Puts
pub mod Spanning
pub mod Saying
