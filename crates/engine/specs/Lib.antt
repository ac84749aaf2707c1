pub mod Prelude
pub mod Layers
pub mod Engine
pub mod Looking
pub mod Room
