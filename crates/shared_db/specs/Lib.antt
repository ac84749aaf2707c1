pub mod Prelude
pub mod History
pub mod Standing
pub mod Closing
pub mod Seats
pub mod Calls
