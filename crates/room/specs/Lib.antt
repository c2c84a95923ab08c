pub mod Parts
pub mod Layout
pub mod Broken
pub mod Held
pub mod Written
