pub mod Prelude
pub mod Tables
pub mod Scans
pub mod Holding
