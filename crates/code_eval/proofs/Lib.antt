pub mod ChainLemmas
pub mod FieldLemmas
pub mod LayerLemmas
pub mod LeadingLemmas
pub mod LoopLemmas
pub mod OperandLemmas
pub mod RangeLemmas
