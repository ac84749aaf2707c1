pub mod Prelude
pub mod Devices
pub mod Waiting
pub mod Seating
pub mod Runs
pub mod Going
