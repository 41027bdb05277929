pub mod ActLemmas
pub mod CaseLemmas
pub mod StepLemmas
pub mod TurnOrderLemmas
pub mod TestLemmas
