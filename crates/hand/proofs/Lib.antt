pub mod Handing
pub mod Answered
