pub mod Readers
pub mod Starts
pub mod Spans
