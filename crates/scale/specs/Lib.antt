pub mod Conversion
pub mod Figures
pub mod Windows
pub mod Kinds
pub mod Means
pub mod Made
