pub mod RowRankLemmas
pub mod SpelledRankLemmas
pub mod BlockLemmas
