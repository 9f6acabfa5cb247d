pub mod Common
pub mod Arguments
pub mod Commands
pub mod Program
pub mod Outcomes
pub mod LogMerges
pub mod Reports
