pub mod Counts
pub mod Sums
pub mod Keys
pub mod Lines
pub mod Logs
pub mod Left
