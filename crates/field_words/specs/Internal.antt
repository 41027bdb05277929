pub mod Fills
pub mod Plays
