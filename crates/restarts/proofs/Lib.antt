pub mod Common
pub mod Blocks
pub mod Rebuilding
pub mod Alike
pub mod Crashing
pub mod Findings
pub mod Shifting
pub mod TwinReplies
pub mod TwinSteps
pub mod GoingOnAlike
pub mod Foreseeing
pub mod InRange
pub mod ByRows
mod WorkedRestart
