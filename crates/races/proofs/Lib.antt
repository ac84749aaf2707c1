pub mod Common
mod Breaking
mod Refusing
mod Promised
mod Starting
mod Weighing
mod Ordered
pub mod Shares
mod Fresh
mod Giving
