pub mod Prelude
pub mod Texts
pub mod Followers
pub mod Consumers
