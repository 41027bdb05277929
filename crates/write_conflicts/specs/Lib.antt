pub mod Conflicts
pub mod Internal
