pub mod Commas
mod Cookies
mod CounterLaws
mod Streams
