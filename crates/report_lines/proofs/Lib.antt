pub mod Common
pub mod Writing
