pub mod Common
pub mod Longer
pub mod Each
