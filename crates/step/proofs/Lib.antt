pub mod Lending
pub mod Removing
