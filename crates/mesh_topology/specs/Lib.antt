pub mod Elements
pub mod Internal
