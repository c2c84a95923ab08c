pub mod Exported
pub mod Told
pub mod Writing
