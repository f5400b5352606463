pub mod Channels
pub mod Readings
pub mod Rising
