pub mod Cuts
pub mod Operators
