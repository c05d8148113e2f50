pub mod ColumnSteps
pub mod Digits
pub mod Lists
pub mod Names
pub mod Parts
pub mod RowOfLine
