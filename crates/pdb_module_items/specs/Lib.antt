pub mod Definitions
pub mod Ends
pub mod KeptSizes
pub mod Reading
pub mod Sizes
