mod Fills
pub mod BoundSteps
pub mod KeptSlots
pub mod KeptProcedures
pub mod KeptRows
pub mod KeptSteps
pub mod SitesSteps
