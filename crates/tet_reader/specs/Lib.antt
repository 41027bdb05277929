pub mod Answers
pub mod Faults
pub mod Files
pub mod Headers
pub mod Internal
pub mod Points
pub mod Tests
