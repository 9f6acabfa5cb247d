pub mod Alike
pub mod Errors
