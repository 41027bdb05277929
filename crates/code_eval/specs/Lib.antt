pub mod Acts
pub mod Arithmetic
pub mod Executions
pub mod Internal
pub mod Meaning
pub mod Stops
pub mod Stores
