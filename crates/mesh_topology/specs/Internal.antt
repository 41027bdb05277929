-- Definitions on which no public contract rests.
pub mod Buckets
pub mod Combinations
pub mod Incidence
pub mod Meshes
pub mod Tables
