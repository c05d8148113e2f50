pub mod Laws
pub mod OneFunction
pub mod Reports
pub mod Samples
pub mod WordRows
