mod Annotating
pub mod Lists
