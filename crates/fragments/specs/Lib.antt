pub mod Fragments
pub mod Meeting
