mod Entries
mod OneMore
mod Steps
pub mod FileSteps
pub mod Halving
pub mod MarkSteps
pub mod Order
pub mod RowSteps
