pub mod Canonical
pub mod Tree
pub mod Trees
