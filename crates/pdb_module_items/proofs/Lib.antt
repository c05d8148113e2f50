pub mod DefinitionSteps
pub mod EndSteps
pub mod GatherSteps
pub mod KeptSteps
pub mod ReadingAlike
pub mod SizeSteps
