pub mod Annotations
pub mod Forms
pub mod Iteration
pub mod Kinds
pub mod Numbers
pub mod Records
pub mod Symbols
