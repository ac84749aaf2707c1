pub mod Prelude
pub mod Running
pub mod Dump
pub mod Restart
