pub mod Common
pub mod Opening
pub mod Seeding
pub mod PairLines
