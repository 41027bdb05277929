pub mod Commands
pub mod Internal
