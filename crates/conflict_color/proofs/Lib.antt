pub mod MemberLemmas
pub mod LeastColourLemmas
pub mod ColourLemmas
pub mod SweepLemmas
pub mod AllSweepLemmas
