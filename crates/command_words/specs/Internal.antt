-- Definitions on which no public contract rests.
pub mod CommandReading
pub mod Matches
