pub mod Blocks
pub mod Sources
pub mod Views
