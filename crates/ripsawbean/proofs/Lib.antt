pub mod Common
mod Heap
mod LooseValues
mod HandleValues
mod HandleSends
mod Dumping
mod BoundedCalls
