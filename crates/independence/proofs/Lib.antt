pub mod AgreementLemmas
pub mod IterationLemmas
pub mod SequenceLemmas
pub mod OrderLemmas
