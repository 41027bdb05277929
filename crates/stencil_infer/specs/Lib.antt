pub mod Internal
pub mod Stencils
