pub mod Causes
pub mod Shelves
pub mod Sinks
pub mod Whole
pub mod Scripts
pub mod FileLists
pub mod InMemory
pub mod Hosts
