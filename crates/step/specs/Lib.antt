pub mod Looked
pub mod Worked
