pub mod Shown
pub mod MarkValues
pub mod Calls
pub mod CallsFrom
pub mod Iterating
pub mod Integers
