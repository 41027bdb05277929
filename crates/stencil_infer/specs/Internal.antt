-- Definitions on which no public contract rests.
pub mod AccessSets
pub mod Cases
pub mod CodeAccesses
pub mod CodeIterations
