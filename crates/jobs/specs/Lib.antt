pub mod Prelude
pub mod Verdicts
pub mod Ends
pub mod Races
