pub mod Clients
pub mod Seconds
