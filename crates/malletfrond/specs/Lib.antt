pub mod Answers
pub mod Promise
pub mod Runs
pub mod Demand
