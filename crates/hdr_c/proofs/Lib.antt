mod AsBox
mod Bounds
mod Creating
mod Forms
mod LogSteps
mod HeaderSteps
mod StepLaws
pub mod Runs
pub mod Values
