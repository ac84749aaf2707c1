pub mod Common
pub mod Sameness
pub mod Wanting
pub mod TraceSteps
