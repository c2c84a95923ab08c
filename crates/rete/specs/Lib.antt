pub mod Sift
pub mod Rules
pub mod Cut
pub mod Tallied
