-- Definitions on which no public contract rests.
pub mod Cases
pub mod Iterating
pub mod RunSteps
