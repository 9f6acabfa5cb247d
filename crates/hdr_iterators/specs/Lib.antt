pub mod Seen
pub mod Picks
pub mod Places
pub mod Linear
pub mod Log
pub mod Ticks
