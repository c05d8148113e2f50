pub mod Blocks
pub mod Pieces
pub mod Walks
