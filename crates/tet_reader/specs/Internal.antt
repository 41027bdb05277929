-- Definitions on which no public contract rests.
pub mod RowReading
pub mod RowKinds
pub mod FirstMisfit
pub mod RepeatedRows
