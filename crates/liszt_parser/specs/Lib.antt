pub mod CaseTexts
pub mod Cases
pub mod Depth
pub mod Grammar
pub mod Internal
pub mod ParseFault
pub mod ParserAnswers
pub mod Programs
