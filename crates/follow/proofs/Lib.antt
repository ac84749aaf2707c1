pub mod Common
pub mod Tellings
pub mod Reports
pub mod MessagesRead
pub mod Lines
pub mod Steps
pub mod Ends
mod WorkedFollowing
