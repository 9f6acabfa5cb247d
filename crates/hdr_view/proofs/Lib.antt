pub mod Amounts
pub mod LevelFacts
pub mod ShownUnits
pub mod TagOrder
pub mod Times
