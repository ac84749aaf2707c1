pub mod Common
pub mod Numbers
pub mod Tying
pub mod Least
pub mod Reports
