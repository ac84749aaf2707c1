pub mod Common
pub mod Turning
pub mod Answering
pub mod Finishing
pub mod Opening
