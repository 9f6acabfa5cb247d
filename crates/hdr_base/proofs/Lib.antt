pub mod ClassesLeast
pub mod ClassesLaws
pub mod ClassesScale
pub mod ClassesDigits
pub mod ClassesReach
pub mod ClassesFiner
pub mod ClassesIntervals
pub mod ClassesTops
