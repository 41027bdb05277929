pub mod Internal
pub mod Operands
pub mod Operators
