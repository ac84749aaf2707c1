pub mod Common
pub mod Spellings
pub mod Splitting
pub mod Unescaping
pub mod SpelledWords
pub mod LongWords
