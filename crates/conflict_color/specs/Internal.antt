-- Definitions on which no public contract rests.
pub mod LeastColours
pub mod Cases
