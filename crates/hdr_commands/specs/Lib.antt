pub mod Comparisons
pub mod Delimiters
pub mod Statuses
