pub mod Exports
pub mod Imports
pub mod Subsections
