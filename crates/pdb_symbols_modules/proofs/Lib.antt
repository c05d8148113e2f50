pub mod Opening
pub mod NameLemmas
pub mod NulPlaces
pub mod Provided
pub mod SharedSteps
