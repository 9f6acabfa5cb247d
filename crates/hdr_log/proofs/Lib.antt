pub mod PartsDigits
pub mod PartsNumbers
mod PartsFirst
pub mod PartsFronts
pub mod GrammarSteps
pub mod PartsCounted
pub mod TextsComments
pub mod PiecesTexts
pub mod TextsBase64
pub mod TextsBytes
pub mod TextsTimes
pub mod GrammarLines
pub mod GrammarLogs
pub mod GrammarWhole
pub mod GrammarRows
pub mod TimedSteps
