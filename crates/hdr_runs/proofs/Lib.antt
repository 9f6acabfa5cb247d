pub mod Reports
pub mod LogTags
pub mod LogRuns
pub mod LimitTexts
pub mod RecordedTotals
