-- Definitions on which no public contract rests.
pub mod Leading
pub mod Remaining
