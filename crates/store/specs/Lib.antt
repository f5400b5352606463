pub mod Kept
pub mod Places
pub mod Records
pub mod Kinds
