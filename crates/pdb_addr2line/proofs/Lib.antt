pub mod FileSteps
pub mod FunctionSteps
pub mod HeldModules
pub mod HolderSteps
pub mod IdentitySteps
pub mod OpeningSteps
pub mod Refusals
pub mod StartSteps
