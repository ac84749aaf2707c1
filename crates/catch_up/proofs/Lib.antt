pub mod Common
pub mod Order
pub mod Gathered
pub mod Walk
pub mod Firsts
pub mod Due
pub mod Merge
