pub mod ChainLemmas
pub mod WordLemmas
pub mod TableLemmas
pub mod RegionLemmas
