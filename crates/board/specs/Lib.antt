pub mod Outputs
pub mod Relays
pub mod Bytes
pub mod Kinds
