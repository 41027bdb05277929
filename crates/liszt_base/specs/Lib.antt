pub mod Corners
pub mod Cuts
pub mod Gives
pub mod Kinds
pub mod Limits
pub mod MeshLists
pub mod Reductions
