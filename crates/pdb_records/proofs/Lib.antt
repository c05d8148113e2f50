pub mod Dimensions
pub mod FieldLists
