pub mod BigEndian
pub mod Digits
pub mod Signed
pub mod Spliced
mod Halves
