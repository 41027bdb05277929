pub mod InferenceLemmas
pub mod MeshLemmas
pub mod OutcomeLemmas
pub mod RunLemmas
pub mod StepLemmas
