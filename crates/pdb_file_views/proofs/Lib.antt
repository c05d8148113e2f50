pub mod BlockSteps
pub mod SliceSteps
pub mod SourceSteps
pub mod WitnessSteps
