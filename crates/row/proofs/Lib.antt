pub mod BitLaws
pub mod NotedLaws
pub mod OrderLaws
pub mod RowLaws
pub mod Sums
pub mod WalkLaws
