pub mod EdgeAlongLemmas
pub mod FaceCycleLemmas
pub mod OrientationLemmas
pub mod ResultLemmas
pub mod SideSwapLemmas
pub mod TowardsLemmas
