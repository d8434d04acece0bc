pub mod Profile
pub mod Judged
