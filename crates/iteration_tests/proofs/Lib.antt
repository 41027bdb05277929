pub mod ItemLemmas
pub mod LogLemmas
