pub mod Prelude
pub mod Following
pub mod Reports
pub mod Ends
pub mod Steps
pub mod Seeds
