pub mod Regions
pub mod Internal
