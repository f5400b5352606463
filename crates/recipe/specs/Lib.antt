pub mod Ranges
pub mod Limits
pub mod Fills
pub mod Sorts
pub mod Items
pub mod Made
