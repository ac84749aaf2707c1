pub mod Prelude
pub mod Racing
pub mod Merging
