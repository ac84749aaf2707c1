pub mod Prelude
pub mod Words
pub mod Reading
pub mod Faults
