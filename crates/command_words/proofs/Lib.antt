pub mod DigitLemmas
pub mod WordLemmas
pub mod WordPrefixes
pub mod MatchRows
pub mod MatchSteps
pub mod MatchWalk
pub mod MatchEnd
