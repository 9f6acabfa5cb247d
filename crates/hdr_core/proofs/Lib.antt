pub mod CallsFacts
pub mod IteratingFacts
pub mod UsedBins
pub mod EqualityParts
pub mod RestatedMarks
pub mod CorrectionAlone
pub mod MarkValuesKept
