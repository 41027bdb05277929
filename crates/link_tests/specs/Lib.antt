pub mod Rounds
pub mod Scripts
