pub mod Spans
pub mod Halving
pub mod ShortSpans
