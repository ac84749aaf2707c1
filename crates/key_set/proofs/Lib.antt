pub mod Common
pub mod Sets
