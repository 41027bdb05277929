pub mod Expected
pub mod Answers
pub mod Internal
