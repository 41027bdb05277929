pub mod Machine
pub mod Internal
