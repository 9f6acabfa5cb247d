pub mod Checks
pub mod Statuses
