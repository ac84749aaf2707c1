pub mod Standing
pub mod Times
