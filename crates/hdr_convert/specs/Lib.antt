pub mod Errors
pub mod Forms
pub mod Old
pub mod Converted
pub mod Lines
