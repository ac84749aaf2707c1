pub mod Doing
pub mod Sentences
