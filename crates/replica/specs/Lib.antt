pub mod Prelude
pub mod Rows
pub mod Starts
pub mod Replicas
pub mod Right
