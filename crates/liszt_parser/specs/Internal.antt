-- Definitions on which no public contract rests.
pub mod Nesting
pub mod Operands
pub mod Productions
pub mod ProgramParsing
pub mod Reading
pub mod Sorts
pub mod Sources
pub mod TokenBounds
