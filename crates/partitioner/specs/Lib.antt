pub mod Blocks
pub mod PartLists
pub mod PartsFile
pub mod Internal
