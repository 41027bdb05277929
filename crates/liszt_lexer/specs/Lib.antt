pub mod Cases
pub mod Internal
pub mod Lexed
pub mod Lexer
pub mod Words
