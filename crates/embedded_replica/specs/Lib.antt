pub mod Consumers
