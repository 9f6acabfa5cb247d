pub mod Classes
pub mod Fractions
pub mod Items
