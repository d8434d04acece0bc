pub mod Profiles
pub mod Asking
