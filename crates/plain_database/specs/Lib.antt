pub mod Prelude
pub mod Table
pub mod VersionsTied
pub mod Replies
pub mod Tied
pub mod Streams
pub mod FeedTie
pub mod ProtectionTie
