pub mod Tracks
pub mod Refusals
pub mod TableRows
pub mod Rooms
pub mod Answers
pub mod Traks
