pub mod Plain
pub mod Rows
pub mod Tables
