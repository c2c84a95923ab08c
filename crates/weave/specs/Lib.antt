pub mod View
pub mod Built
pub mod Weave
pub mod Blocks
pub mod Near
pub mod Spun
pub mod Made
