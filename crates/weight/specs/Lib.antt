pub mod Faults
pub mod Range
pub mod Rounding
