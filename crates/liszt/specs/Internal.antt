-- Definitions on which no public contract rests.
pub mod Steps
