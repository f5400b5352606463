pub mod Traces
pub mod Settling
