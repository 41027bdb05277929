pub mod Endings
pub mod FieldValues
pub mod Internal
pub mod Texts
