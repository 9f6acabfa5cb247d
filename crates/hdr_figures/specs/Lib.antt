pub mod Breaks
pub mod Classes
pub mod Figures
pub mod Intervals
pub mod Levels
pub mod TagSums
pub mod Widths
