pub mod Prelude
pub mod Recorded
pub mod Batches
pub mod Copies
pub mod Lives
pub mod Law
pub mod OneHistory
