pub mod Agreed
pub mod Clauses
pub mod Cursors
pub mod Dealt
pub mod FilmW
pub mod Finding
pub mod Turns
