-- Definitions on which no public contract rests.
pub mod Rows
pub mod Cases
