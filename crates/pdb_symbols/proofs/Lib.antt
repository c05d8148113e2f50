pub mod ToldSteps
pub mod WritingSteps
pub mod NamedSteps
pub mod HeadSteps
pub mod MakingSteps
pub mod RenamedReads
pub mod FileRoads
