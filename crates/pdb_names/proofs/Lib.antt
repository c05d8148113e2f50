mod MapSteps
mod PlaceSteps
pub mod Failing
pub mod Leaving
pub mod PrintingFails
pub mod Scopes
pub mod VisitsOfIds
