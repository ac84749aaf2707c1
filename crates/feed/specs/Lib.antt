pub mod Prelude
pub mod Standing
pub mod Left
