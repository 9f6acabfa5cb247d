pub mod Parts
pub mod Grammar
pub mod Timed
pub mod Tags
pub mod Reading
pub mod Texts
pub mod Pieces
pub mod Fields
