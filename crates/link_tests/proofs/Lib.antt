pub mod FillLemmas
pub mod PollLemmas
pub mod RoundLemmas
pub mod TableLemmas
