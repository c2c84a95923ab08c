pub mod Bytes
pub mod Readings
