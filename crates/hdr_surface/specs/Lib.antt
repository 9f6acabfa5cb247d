pub mod Overflows
pub mod OwnBytes
pub mod Together
