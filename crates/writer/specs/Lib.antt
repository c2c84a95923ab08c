pub mod Fields
pub mod Rows
pub mod Bytes
pub mod Layout
pub mod Values
pub mod Left
pub mod Promise
pub mod Held
