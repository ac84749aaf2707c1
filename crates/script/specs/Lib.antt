pub mod Prelude
pub mod ReplyReading
pub mod EventLines
pub mod Transcripts
pub mod Scripts
