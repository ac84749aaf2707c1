pub mod Prelude
pub mod Messages
pub mod Meaning
pub mod Written
pub mod Tests
