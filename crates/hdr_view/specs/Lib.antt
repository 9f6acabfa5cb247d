pub mod Amounts
pub mod Naming
pub mod Order
pub mod Views
pub mod Pages
