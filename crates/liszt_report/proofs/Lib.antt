pub mod TextLemmas
pub mod WrittenLemmas
pub mod PlaceLemmas
pub mod FieldLemmas
pub mod PhaseLemmas
