pub mod MemberLemmas
pub mod KeyLemmas
pub mod RankLemmas
pub mod RowLemmas
pub mod ClashLemmas
pub mod LawLemmas
