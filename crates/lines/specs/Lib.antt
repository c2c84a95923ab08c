pub mod Found
pub mod Line
