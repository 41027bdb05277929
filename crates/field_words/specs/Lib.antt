pub mod Events
pub mod Holdings
pub mod Internal
pub mod Maps
pub mod Ownership
pub mod Views
