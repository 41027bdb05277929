pub mod EventLemmas
pub mod FillLemmas
pub mod MapLemmas
pub mod OwnershipLemmas
pub mod SeatLemmas
pub mod SharedLemmas
pub mod StepLemmas
pub mod SumLemmas
