pub mod Common
pub mod Numbers
pub mod Fronts
pub mod Words
pub mod Succeeding
pub mod Views
pub mod Drawing
pub mod Passes
