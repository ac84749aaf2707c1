pub mod Common
pub mod Judging
pub mod States
pub mod Answering
pub mod Dumps
