pub mod Lists
pub mod Views
pub mod Rule
pub mod Steps
pub mod Seats
