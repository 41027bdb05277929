pub mod Colours
pub mod Internal
